pub mod Arrivals
pub mod FeedEvents
pub mod StandsFor
-- inner: no public clause cites this
pub mod Under
