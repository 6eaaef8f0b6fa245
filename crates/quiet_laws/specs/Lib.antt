pub mod Unknown
pub mod Among
pub mod Awake
