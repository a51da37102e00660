pub mod CommandDoes
pub mod CommandCompletes
