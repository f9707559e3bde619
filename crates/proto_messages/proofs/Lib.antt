mod Chains
mod Items
mod ObjectMembers
mod Floats
