-- Keys in a page, computed of one that was worked out by hand, and what its front and its back must have.
use Rattle.std.proofs.Common.{◌≡◌, [], ◌∷◌, ◌-◌, length, take, drop, refl}
use Rattle.std.specs.Prelude.{codes}
use Rattle.std.specs.Fmt.{digits}
use Rattle.hex.proofs.OnLiterals.{hex_on_literals}
use Rattle.serde_json.proofs.OnLiterals.{serde_json_on_literals}
use Rattle.reg_tree_text.specs.DumpTexts.{Told}
use Rattle.reg_tables.specs.declared.page.TheConstants.{FRONT, BACK}
use Rattle.reg_tables.specs.Times.{time_text}
use Rattle.reg_tables.specs.SecurityTexts.{security_told, sddl_of}
use Rattle.reg_tables.specs.Tables.{key_text}
use Rattle.reg_tables.specs.Pages.{shielded}

shielded-tag : shielded (codes "\"a</b\"") ≡ codes "\"a\\u003c/b\""
shielded-tag = refl

shielded-two : shielded (codes "<<!") ≡ codes "\\u003c\\u003c!"
shielded-two = refl

shielded-other : shielded (codes ">&\\") ≡ codes ">&\\"
shielded-other = refl

-- a key whose name would end the script
abbrev tag : Told
tag = record {
  names = codes "</script>" ∷ [];
  key = record { name = codes "</script>"; marks = 0; class = []; descriptor = 2 ∷ []; time = 3_000_000_000_000_000_000; values = [] };
}

key-tag : shielded (key_text tag) ≡
    codes "{\"path\":\"\\u003c/script>\",\"time\":\"3000000000000000000\",\"marks\":0,\"class\":\"\",\"security\":\"02\",\"values\":[]}"
unfolding key_text serde_json_on_literals time_text hex_on_literals digits security_told sddl_of
key-tag = refl

-- the front begins a page of HTML and opens the script that holds the keys, and the back ends that and begins the one that shows them
front-begins : take 15 FRONT.now ≡ codes "<!DOCTYPE html>"
front-begins = refl

front-ends : drop (length FRONT.now - 43) FRONT.now ≡ codes "<script type=\"application/json\" id=\"keys\">\n"
front-ends = refl

back-begins : take 19 BACK.now ≡ codes "</script>\n<script>\n"
back-begins = refl

back-ends : drop (length BACK.now - 26) BACK.now ≡ codes "</script>\n</body>\n</html>\n"
back-ends = refl
