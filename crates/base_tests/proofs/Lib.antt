mod SmallNodes
