mod ProgramLemmas
mod SumLemmas
