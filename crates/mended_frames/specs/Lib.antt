pub mod Mended
pub mod Feeds
pub mod Laws
pub mod StandsFor
pub mod Picks
pub mod Heads
-- inner: no public clause cites these
pub mod Choosing
-- of the crates below, for those who read this one
pub use Rattle.feed_events.specs.FeedEvents
