mod RevisionSums
