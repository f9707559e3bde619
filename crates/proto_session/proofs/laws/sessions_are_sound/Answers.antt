use Rattle.proto_session.proofs.SoundTurns.{sound_run, sound_turn}
use Rattle.proto_session.proofs.laws.sessions_are_sound.Goals as goal

pub returns-clause-turns : goal.returns-clause-turns
returns-clause-turns c = sound_turn c.open_texts_are_seen.ensures.apart

pub returns-clause-runs : goal.returns-clause-runs
returns-clause-runs c = sound_run c.open_texts_are_seen.ensures.apart
