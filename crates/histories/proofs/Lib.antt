pub mod Granting
pub mod Holding
pub mod Standing
pub mod Playing
pub mod Going
pub mod Laws
