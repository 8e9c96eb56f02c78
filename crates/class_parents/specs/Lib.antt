pub mod Laws
pub mod Linearisation
pub mod Parents
pub mod Walk
