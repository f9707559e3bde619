mod FewPlaces
mod NoFaults
mod OneFile
mod PlainWords
