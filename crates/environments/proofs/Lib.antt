pub mod RecentLaws
