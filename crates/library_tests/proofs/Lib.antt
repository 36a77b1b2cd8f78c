mod BothTrees
