use Rattle.search_all.proofs.search.search_all.Given as goal

-- the type that is passed says where this search starts
abbrev pub ghosts-explored : goal.ghosts-explored
ghosts-explored g a = record { start = a.source.now }
