mod Reading
mod Keeping
mod TurnLemmas
mod Closing
