pub mod BlockPlaces
