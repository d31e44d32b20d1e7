pub mod Rubbish
