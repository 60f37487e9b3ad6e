pub mod Modulating
pub mod Gives
pub mod StandsFor
pub mod Laws
