use Rattle.lrc_tests.proofs.sessions.board.a_viewer_sees_what_it_was_shown.Given as goal

abbrev pub ghosts-watch : goal.ghosts-watch
ghosts-watch g a = record { log = a.log.prefix.book; start = a.log.permit.nib.key; topology = a.book.nodes; limit = a.book.limit }
