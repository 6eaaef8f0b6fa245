mod LeafLaws
