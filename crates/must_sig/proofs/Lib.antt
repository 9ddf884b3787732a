mod Periods
mod Ahead
mod Matching
mod Flat
mod Laying
mod Merged
mod Trees
mod Rooms
