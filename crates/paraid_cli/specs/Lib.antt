pub mod CommandEnd
