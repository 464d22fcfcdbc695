pub mod Items
pub mod Ahead
pub mod Feeds
pub mod FeedLaws
pub mod HouseLaws
