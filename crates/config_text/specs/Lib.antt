pub mod ConfigText
pub mod Fields
pub mod Rows
-- inner: no public clause cites these
pub mod Drafts
pub mod Words
