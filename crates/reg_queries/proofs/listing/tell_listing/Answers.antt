use Rattle.std.proofs.Common.{[], map}
use Rattle.reg_tree_image.specs.KeysAtPaths.{listed_in, names_in}
use Rattle.reg_tree_text.proofs.SentTexts.{so_far_start, told_ok, told_err, told_failures, err_exits, exits}
use Rattle.reg_queries.specs.KeyQueries.{listing_lines}
use Rattle.reg_queries.proofs.listing.tell_listing.Goals as goal

pub returns-in_err-put_listing-clause-err : goal.returns-in_err-put_listing-clause-err
returns-in_err-put_listing-clause-err g c =
    err_exits _ _ _ c.from_residual.ensures.1
    (c.in_err-put_listing.ensures (g.W.Sink.contents c.args.writer.now, g.W.Sink.failures c.args.writer.now)
    (listing_lines (map listed_in c.args.values.now) (names_in c.args.subkeys.now)) []
    (so_far_start _ (listing_lines (map listed_in c.args.values.now) (names_in c.args.subkeys.now)) _ _ c.new-output.ensures.gathered c.new-output.ensures.written)).0

pub returns-in_err-put_listing-clause-failures : goal.returns-in_err-put_listing-clause-failures
returns-in_err-put_listing-clause-failures g c =
    exits _ _ _ _ c.from_residual.ensures.1
    (c.in_err-put_listing.ensures (g.W.Sink.contents c.args.writer.now, g.W.Sink.failures c.args.writer.now)
    (listing_lines (map listed_in c.args.values.now) (names_in c.args.subkeys.now)) []
    (so_far_start _ (listing_lines (map listed_in c.args.values.now) (names_in c.args.subkeys.now)) _ _ c.new-output.ensures.gathered c.new-output.ensures.written)).1

pub returns-clause-ok : goal.returns-clause-ok
returns-clause-ok g c =
    told_ok (g.W.Sink.contents c.args.writer.now, g.W.Sink.failures c.args.writer.now) _ (listing_lines (map listed_in c.args.values.now) (names_in c.args.subkeys.now)) _ _ _
    (c.finish.ensures.puts (g.W.Sink.contents c.args.writer.now, g.W.Sink.failures c.args.writer.now)
    (listing_lines (map listed_in c.args.values.now) (names_in c.args.subkeys.now)) []
    (c.in_ok-put_listing.ensures (g.W.Sink.contents c.args.writer.now, g.W.Sink.failures c.args.writer.now)
    (listing_lines (map listed_in c.args.values.now) (names_in c.args.subkeys.now)) []
    (so_far_start _ (listing_lines (map listed_in c.args.values.now) (names_in c.args.subkeys.now)) _ _ c.new-output.ensures.gathered c.new-output.ensures.written)))
    c.finish.ensures.empty

pub returns-clause-err : goal.returns-clause-err
returns-clause-err g c =
    told_err (g.W.Sink.contents c.args.writer.now, g.W.Sink.failures c.args.writer.now) _ (listing_lines (map listed_in c.args.values.now) (names_in c.args.subkeys.now)) _ _ c.finish.result
    (c.finish.ensures.puts (g.W.Sink.contents c.args.writer.now, g.W.Sink.failures c.args.writer.now)
    (listing_lines (map listed_in c.args.values.now) (names_in c.args.subkeys.now)) []
    (c.in_ok-put_listing.ensures (g.W.Sink.contents c.args.writer.now, g.W.Sink.failures c.args.writer.now)
    (listing_lines (map listed_in c.args.values.now) (names_in c.args.subkeys.now)) []
    (so_far_start _ (listing_lines (map listed_in c.args.values.now) (names_in c.args.subkeys.now)) _ _ c.new-output.ensures.gathered c.new-output.ensures.written)))

pub returns-clause-failures : goal.returns-clause-failures
returns-clause-failures g c =
    told_failures (g.W.Sink.contents c.args.writer.now, g.W.Sink.failures c.args.writer.now) _ (listing_lines (map listed_in c.args.values.now) (names_in c.args.subkeys.now)) _ _ c.finish.result
    (c.finish.ensures.puts (g.W.Sink.contents c.args.writer.now, g.W.Sink.failures c.args.writer.now)
    (listing_lines (map listed_in c.args.values.now) (names_in c.args.subkeys.now)) []
    (c.in_ok-put_listing.ensures (g.W.Sink.contents c.args.writer.now, g.W.Sink.failures c.args.writer.now)
    (listing_lines (map listed_in c.args.values.now) (names_in c.args.subkeys.now)) []
    (so_far_start _ (listing_lines (map listed_in c.args.values.now) (names_in c.args.subkeys.now)) _ _ c.new-output.ensures.gathered c.new-output.ensures.written)))
