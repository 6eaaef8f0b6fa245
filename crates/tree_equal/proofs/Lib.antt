mod Affecting
mod Touching
mod Merging
mod AtOnce
mod Telling
mod Lists
