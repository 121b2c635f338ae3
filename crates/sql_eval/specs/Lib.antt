pub mod GroupPlaces
pub mod Origins
pub mod Placed
pub mod View
pub mod Resolves
