mod Answered
mod Answering
mod AskedLanguages
mod Building
mod Lines
mod Marking
mod Naming
