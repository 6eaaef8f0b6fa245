mod StartLaws
mod ToldLaws
