pub mod Formed
pub mod Nodes
pub mod Puts
pub mod Texts
pub mod Trips
