mod MergedIndexes
