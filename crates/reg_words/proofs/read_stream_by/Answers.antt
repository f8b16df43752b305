use Rattle.reg_words.proofs.StreamRequests.{asks_not_both, no_stream}
use Rattle.reg_words.proofs.read_stream_by.Goals as goal

pub returns-clause-refuses : goal.returns-clause-refuses
returns-clause-refuses c = λ other. no_stream _ _ c.stream_of.result c.stream_of.ensures c.in-None.is c.in_ok-request.ensures.asks

pub returns-clause-options : goal.returns-clause-options
returns-clause-options c = asks_not_both _ _ c.in_ok-request.ensures.asks
