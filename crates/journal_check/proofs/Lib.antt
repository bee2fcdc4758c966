mod CheckLaws
mod FirstLaws
mod ReadingLaws
mod Rows
