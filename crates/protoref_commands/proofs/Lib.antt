mod Faulted
mod Migrated
mod OneList
mod OnePrint
mod OneRun
mod Printing
mod Recovered
mod Tellings
