mod ByFile
mod InLanguage
mod News
mod ShownKinds
mod ToldOnce
mod Viewed
