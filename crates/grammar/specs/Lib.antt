pub mod Parse
pub mod Laws
pub mod Grammar
pub mod Splice
