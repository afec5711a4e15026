pub mod Forms
pub mod Numbers
pub mod Placed
pub mod Pushed
pub mod Table
pub mod Words
