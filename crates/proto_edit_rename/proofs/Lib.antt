pub mod AimedAt
mod ChangedMarks
pub mod Common
mod DefaultTexts
mod EndTokens
mod EnumOfValue
mod FileChanges
mod FoundTokens
mod JsonClashes
mod KnownReferences
mod LeastCases
mod MarkTurns
pub mod MemberTests
mod NameTexts
mod NoTargets
mod OneAim
mod OneScene
mod OneofItems
mod OptionNames
mod Placed
mod PlacedWords
mod ReferredKinds
mod Refused
mod ReservedNames
mod StandingUses
mod TokensInOrder
mod UnreservedBlocks
mod WholeChanges
