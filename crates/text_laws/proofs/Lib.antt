pub mod Firsts
pub mod Asked
pub mod SoundMachines
pub mod Definers
pub mod Statements
pub mod SoundLoops
pub mod Formed
