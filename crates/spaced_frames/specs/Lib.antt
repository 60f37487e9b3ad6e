pub mod Spaced
pub mod StandsFor
pub mod Laws
