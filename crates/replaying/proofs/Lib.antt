pub mod Befores
pub mod Nexts
pub mod Plays
pub mod Goes
pub mod Alls
