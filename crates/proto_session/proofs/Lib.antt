pub mod ChangedSessions
pub mod RequestTurns
pub mod SeenSessions
pub mod ServerTurns
pub mod SoundTurns
pub mod ToldTurns
