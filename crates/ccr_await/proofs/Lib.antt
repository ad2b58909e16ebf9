pub mod NamesAfterCommits
