pub mod Bodies
pub mod Formed
pub mod Laws
pub mod Letters
pub mod Meanings
pub mod Shapes
