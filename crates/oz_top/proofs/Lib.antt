mod CostLaws
