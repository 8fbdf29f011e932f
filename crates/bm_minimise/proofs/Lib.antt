pub mod ShorterLemmas
