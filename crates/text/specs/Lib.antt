pub mod CallLines
pub mod AnswerLines
pub mod HouseLines
pub mod Told
pub mod Places
