mod PartSources
