pub mod Arguments
pub mod Asked
pub mod Bundle
pub mod ExitStatus
pub mod Files
pub mod ProgramLines
