use Rattle.reg_files.specs.Internal.Cuts.{is_cut}
use Rattle.reg_files.proofs.StoppedCommands.{from_err, reg_stops, json_stops, lines_stops, csv_stops, html_stops}
use Rattle.reg_files.proofs.queries.export_as.Goals as goal

pub returns-in_err-export_reg-in-Reg-clause-err : goal.returns-in_err-export_reg-in-Reg-clause-err
returns-in_err-export_reg-in-Reg-clause-err g c =
    from_err _ _ c.from_residual.result c.from_residual.ensures.1
    (λ fault cut. reg_stops c.args.form _ _ _ (is_cut fault) _ _ c.in_err-export_reg-in-Reg.field-0.0 cut _ _ c.in-Reg.is
    c.in_err-export_reg-in-Reg.ensures.err)

pub returns-in_err-export_json-in-Json-clause-err : goal.returns-in_err-export_json-in-Json-clause-err
returns-in_err-export_json-in-Json-clause-err g c =
    from_err _ _ c.from_residual-in_err-export_json-in-Json.result c.from_residual-in_err-export_json-in-Json.ensures.1
    (λ fault cut. json_stops c.args.form _ _ _ (is_cut fault) _ _ c.in-Json.is
    (c.in_err-export_json-in-Json.field-0.0, cut, c.in_err-export_json-in-Json.ensures.err))

pub returns-in_err-export_jsonl-in-JsonLines-clause-err : goal.returns-in_err-export_jsonl-in-JsonLines-clause-err
returns-in_err-export_jsonl-in-JsonLines-clause-err g c =
    from_err _ _ c.from_residual-in_err-export_jsonl-in-JsonLines.result c.from_residual-in_err-export_jsonl-in-JsonLines.ensures.1
    (λ fault cut. lines_stops c.args.form _ _ _ (is_cut fault) _ _ c.in-JsonLines.is
    (c.in_err-export_jsonl-in-JsonLines.field-0.0, cut, c.in_err-export_jsonl-in-JsonLines.ensures.err))

pub returns-in_err-export_csv-in-Csv-clause-err : goal.returns-in_err-export_csv-in-Csv-clause-err
returns-in_err-export_csv-in-Csv-clause-err g c =
    from_err _ _ c.from_residual-in_err-export_csv-in-Csv.result c.from_residual-in_err-export_csv-in-Csv.ensures.1
    (λ fault cut. csv_stops c.args.form _ _ _ (is_cut fault) _ _ c.in-Csv.is
    (c.in_err-export_csv-in-Csv.field-0.0, cut, c.in_err-export_csv-in-Csv.ensures.err))

pub returns-in_err-export_html-in-Html-clause-err : goal.returns-in_err-export_html-in-Html-clause-err
returns-in_err-export_html-in-Html-clause-err g c =
    from_err _ _ c.from_residual-in_err-export_html-in-Html.result c.from_residual-in_err-export_html-in-Html.ensures.1
    (λ fault cut. html_stops c.args.form _ _ _ (is_cut fault) _ _ c.in-Html.is
    (c.in_err-export_html-in-Html.field-0.0, cut, c.in_err-export_html-in-Html.ensures.err))
