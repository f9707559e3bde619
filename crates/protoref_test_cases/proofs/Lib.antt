mod Leading
mod Lists
mod Outcomes
mod SameFiles
mod WholeRows
