mod Rows
mod Groupings
mod Risings
