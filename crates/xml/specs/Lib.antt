pub mod Bytes
pub mod Among
pub mod AmongLaws
pub mod Xml
pub mod Elements
pub mod Code
pub mod CodeLaws
