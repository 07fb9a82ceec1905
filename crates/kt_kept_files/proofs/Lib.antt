pub mod NamedFilesLemmas
