mod ArityLaws
