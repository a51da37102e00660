mod EdgeEndLemmas
