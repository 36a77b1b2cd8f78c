mod Alike
mod Answered
mod Pieces
