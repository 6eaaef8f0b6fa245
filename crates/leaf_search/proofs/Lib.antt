mod Opening
mod Visiting
